pub mod CountedFrom
pub mod PointLists
pub mod TableWords
