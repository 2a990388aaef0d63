pub mod MemberEdges
pub mod Staying
pub mod Entries
pub mod Params
