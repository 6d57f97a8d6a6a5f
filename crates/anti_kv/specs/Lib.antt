pub mod KvStates
pub mod KvLaws
