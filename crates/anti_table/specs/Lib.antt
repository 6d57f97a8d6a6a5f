pub mod TableStates
pub mod TableLaws
