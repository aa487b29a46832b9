pub mod Arguments
pub mod BayNames
