-- To unfold `run` is to unfold all of specs/; `run_checks` adds what the tables compute besides. Written by tools/penne/tables.py.
use Prim.Native.Nat.{ℕ}
use mathlib.Core.Bool.{Bool}
use mathlib.Core.List.{List, flat_map}
use Rattle.penne.specs.Reader as Reader'
use Rattle.penne.specs.Read as Read'
use Rattle.penne.specs.Write as Write'
use Rattle.penne.specs.Find as Find'
use Rattle.penne.specs.State as State'
use Rattle.penne.specs.Labels as Labels'
use Rattle.penne.specs.Pruning as Pruning'
use Rattle.penne.specs.Containers as Containers'
use Rattle.penne.specs.Scopes as Scopes'
use Rattle.penne.specs.Variables as Variables'
use Rattle.penne.specs.Walks as Walks'
use Rattle.penne.specs.Standing as Standing'
use Rattle.penne.specs.Scoper as Scoper'
use Rattle.penne.specs.Places as Places'
use Rattle.penne.specs.Ids as Ids'
use Rattle.penne.specs.PlaceRule as PlaceRule'
use Rattle.penne.proofs.Reach as Reach'
use Rattle.penne.proofs.Checks as Checks'

unfoldable pub run : List ℕ → (bytes words work : ℕ) → Scoper'.Outcome
unfolding flat_map Reader'.◌>>=◌ Reader'.ret Reader'.such Reader'.moved Reader'.last_group Reader'.groups Reader'.num Reader'.below Reader'.raw Reader'.bytes Reader'.many Reader'.listed Reader'.each Reader'.plus Reader'.fits Reader'.nothing Reader'.a_container Reader'.a_function Reader'.an_entry Reader'.a_statement Reader'.counted Reader'.counting Reader'.too_deep Read'.place Read'.name Read'.ident Read'.poison_fields Read'.poison_of Read'.read_poison Read'.either Read'.maybe Read'.option Read'.ty_kinds Read'.ty_of Read'.read_ty Read'.to_nodes Read'.expr_kinds Read'.item_of Read'.read_binary Read'.read_unary Read'.read_boolean Read'.read_integer Read'.read_string Read'.read_array_literal Read'.read_structural Read'.read_parenthesized Read'.read_deref Read'.read_bit_cast Read'.read_type_cast Read'.read_length_of_array Read'.read_size_of Read'.read_function_call Read'.expr_of Read'.step_of Read'.head Read'.rest_of Read'.read Read'.to_stms Read'.stmt_kinds Read'.else_of Read'.read_declaration Read'.read_assignment Read'.read_method_call Read'.read_jump Read'.read_if Read'.read_block Read'.stmt_of Read'.stmt_head Read'.stmt_counts Read'.read_stmt Read'.read_body Read'.read_param Read'.decl_kinds Read'.read_constant Read'.read_function Read'.read_function_head Read'.read_structure Read'.read_import Read'.decl_of Read'.decl_head Read'.decl_counts Read'.read_decl Read'.same_bytes Read'.among_names Read'.read_names Read'.tabled Read'.read_tree Read'.incoming Read'.answered Read'.ended Read'.decode Write'.groups_b Write'.num_b Write'.place_b Write'.list_b Write'.bytes_b Write'.ident_b Write'.poison_b Write'.maybe_b Write'.option_b Write'.ty_b Write'.carried_b Write'.count Write'.node_b Write'.count' Write'.stm_b Write'.body_b Write'.param_b Write'.decl_b Write'.encode Find'.first Find'.keep Find'.is_in Find'.union Find'.minus Find'.first_named Find'.resolved State'.◌>>=◌ State'.ret State'.or_poison State'.◌>>?◌ Labels'.pop_scope Labels'.use_label Labels'.declare_label Labels'.declared Labels'.labels Labels'.labels_body Labels'.labels_decl Labels'.labels_decls Labels'.label_references Pruning'.meet_at Pruning'.prepare_to_prune_at_goto Pruning'.prune Pruning'.prune_all Pruning'.prune_by Pruning'.prune_at_label Pruning'.fate_by Pruning'.fate Pruning'.poison_variable Pruning'.list_skip Pruning'.no_prunings Pruning'.offsets Containers'.with_containers Containers'.push_container Containers'.identifier_of Containers'.id_of Containers'.structures Containers'.constants Containers'.contained_ids_of Containers'.joined Containers'.join_where Containers'.constant_in_cycle Containers'.cyclical_structure Containers'.cyclical Containers'.added_ids Containers'.add_ids Containers'.found_container_1 Containers'.found_container Containers'.resolves Containers'.settled Containers'.rounds Containers'.or_poisoned Containers'.determine_container_depths Containers'.obtain_container_depth Scopes'.with_stack Scopes'.with_functions Scopes'.with_containment Scopes'.with_prunings Scopes'.next_id Scopes'.variables Scopes'.last_layer Scopes'.in_new_scope Scopes'.on_containment Scopes'.create_anonymous_resolution_id Scopes'.unless_duplicate Scopes'.authoritative Scopes'.push_constant Scopes'.push_variable Scopes'.declare_constant Scopes'.declare_variable Scopes'.declare_function Scopes'.declare_struct Scopes'.undefined Scopes'.use_containee Scopes'.use_as Scopes'.may_be_skipped Scopes'.use_variable_by Scopes'.use_variable_at Scopes'.use_variable Scopes'.use_constant_at Scopes'.use_constant Scopes'.use_function_at Scopes'.use_function Scopes'.use_struct_at Scopes'.use_struct Scopes'.prepare_to_prune_at_goto Scopes'.prune_at_label Scopes'.begin Variables'.analyze_type Variables'.analyze_maybe_type Variables'.analyze_base Variables'.cast_to Variables'.size_of_type Variables'.use_called Variables'.call_to Variables'.analyze_node Variables'.analyze_option Variables'.declaration_of Variables'.method_to Variables'.analyze_stm Variables'.analyze_in_body Variables'.analyze_body Variables'.in_turn Variables'.declare_maybe Variables'.analyze_param Variables'.found_maybe Variables'.analyze_wellfoundedness Variables'.analyze_member Variables'.in_constexpr_of Variables'.analyze_constexpr Variables'.is_main Variables'.with_main Variables'.function_of Variables'.function_head_of Variables'.analyze_params_and_body Variables'.analyze_decl Variables'.declared_as Variables'.predeclare Variables'.depth_of Variables'.analyze_all Variables'.postanalyzed Walks'.with_scope Walks'.resolve Walks'.stands Walks'.base_use Walks'.uses Walks'.option_uses Walks'.declared Walks'.acts Walks'.body_acts Walks'.record_of Walks'.record_if Walks'.picked Walks'.not_bare Walks'.premise Walks'.constant_names Walks'.structure_names Walks'.function_names Walks'.is_body Walks'.is_kept Walks'.param_names Walks'.names_at Walks'.parts Walks'.parts_of Standing'.outline Standing'.outline_option Standing'.outline_stm Standing'.outline_body Standing'.acts_at Standing'.size Standing'.any_type Scoper'.analyze Scoper'.answered_tree Scoper'.skip_list Scoper'.answer_to Scoper'.words Scoper'.if_room Scoper'.scoped_answer Scoper'.padded Scoper'.outcome Scoper'.scoped Scoper'.ask_decl Scoper'.ask_tree Scoper'.ask Scoper'.depth_or Scoper'.get_container_depth Scoper'.is_container Scoper'.name_from Scoper'.structure_name Scoper'.get_structure_name Places'.map_ident Places'.map_poison Places'.map_maybe Places'.map_option Places'.map_ty Places'.map_maybe_ty Places'.map_carried Places'.map_node Places'.map_stm Places'.map_param Places'.map_body Places'.map_decl Places'.map_tree Ids'.ids_node Ids'.ids_option Ids'.ids_stm Ids'.ids_body Ids'.ids_name Ids'.ids_params Ids'.ids_decl Ids'.ids_own Ids'.ids_decls Ids'.ids_labels Ids'.ids_labels_body Ids'.ids_labels_decl Ids'.ids_labels_decls Ids'.given_maybe Ids'.given_option Ids'.given_ident Ids'.given_ty Ids'.given_called Ids'.given_node Ids'.given_stm Ids'.given_body Ids'.given_param Ids'.given_decl Ids'.given_labels Ids'.given_labels_body Ids'.given_labels_decl PlaceRule'.in_poison PlaceRule'.in_type PlaceRule'.in_expr PlaceRule'.in_step PlaceRule'.in_stmt PlaceRule'.in_decl PlaceRule'.in_option PlaceRule'.in_maybe PlaceRule'.in_times PlaceRule'.move PlaceRule'.least_as_long PlaceRule'.blank
run s m n w = Scoper'.scoped s m n w

unfoldable pub run_checks : List ℕ → List (ℕ × ℕ) × List (ℕ × ℕ) × Bool
unfolding run Reach'.places_of Reach'.onward Reach'.grow Reach'.skipped_at Reach'.skipped_from Reach'.of_body Reach'.of_decl Reach'.of_decls Reach'.walked Checks'.container_id Checks'.number_of Checks'.body_premise Checks'.decl_premise Checks'.all_premise Checks'.besides_tree Checks'.besides Checks'.readers
run_checks s = Checks'.besides s
