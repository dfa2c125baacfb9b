pub mod Check
pub mod Cycles
pub mod Edges
pub mod Graph
pub mod Laws
pub mod Order
pub mod Ordered
pub mod Progress
