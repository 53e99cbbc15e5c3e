pub mod Subtrees
pub mod Local
pub mod Node
pub mod NodeFalls
pub mod Place
pub mod Visits
pub mod Words
