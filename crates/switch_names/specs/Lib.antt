pub mod Ids
pub mod NameFault
pub mod Names
pub mod Path
pub mod SystemName
pub mod Texts
pub mod UnitKind
pub mod UnitName
