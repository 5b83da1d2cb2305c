pub mod FirstFaults
pub mod FirstFound
pub mod Layouts
pub mod MemberSizes
pub mod PairKeys
pub mod Passing
pub mod Standings
