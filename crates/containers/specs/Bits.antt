-- What the calls on the rows of bits do: row r of a container, and row 128, which is to work with. Each promise is about 129 rows.
use Rattle.std.specs.Prelude.{ℕ, ◌≤◌, ◌<◌, ◌≡◌, true, false, ◌&&◌, ◌||◌, List, eqb, length}
use Rattle.memory.specs.Rows.{member}
use Rattle.containers.specs.declared.containers.Contained.{Contained}
use Rattle.containers.specs.declared.containers.Contained.TheVariants.{Fine, Poisoned, Cyclical}

-- hand_to: a row that has bit c takes in row 128
pub record HandsTo (row c : ℕ) (w w' : List ℕ) : Type 0 where
  pub long : length w' ≡ length w
  pub same : (i j : ℕ) → (i ≡ row → ⊥) → member w' i j ≡ member w i j
  pub here : length w ≡ 516 → row < 128 → (j : ℕ) → member w' row j ≡ member w row j || (member w row c && member w 128 j)

-- hand_on: so do the first `count` rows
pub record HandsOn (count c : ℕ) (w w' : List ℕ) : Type 0 where
  pub long : length w' ≡ length w
  pub same : (i j : ℕ) → count ≤ i → member w' i j ≡ member w i j
  pub here : length w ≡ 516 → count ≤ 128 → (i j : ℕ) → i < count → member w' i j ≡ member w i j || (member w i c && member w 128 j)

-- row 128 has x and all that row x has, and row c takes them in
pub record Joined (c x : ℕ) (w w' : List ℕ) : Type 0 where
  pub long : length w' ≡ length w
  pub same : (i j : ℕ) → (i ≡ c → ⊥) → i < 128 → member w' i j ≡ member w i j
  pub spare : (j : ℕ) → member w' 128 j ≡ member w x j || eqb j x
  pub here : (j : ℕ) → member w' c j ≡ member w c j || (member w x j || eqb j x)

-- take_in, by whether row c had c, and whether it has c then
pub data Took (count c x : ℕ) (w : List ℕ) : Contained → List ℕ → Type 0 where
  had : member w c c ≡ true → Took count c x w Poisoned w
  has : {w' : List ℕ} → member w c c ≡ false → Joined c x w w' → member w' c c ≡ true → Took count c x w Cyclical w'
  not : {w₁ w' : List ℕ} → member w c c ≡ false → Joined c x w w₁ → member w₁ c c ≡ false → HandsOn count c w₁ w' → Took count c x w Fine w'

pub record TakesIn (count c x : ℕ) (w : List ℕ) (r : Contained) (w' : List ℕ) : Type 0 where
  pub long : length w' ≡ length w
  pub takes : length w ≡ 516 → count ≤ 128 → c < count → x < count → Took count c x w r w'
