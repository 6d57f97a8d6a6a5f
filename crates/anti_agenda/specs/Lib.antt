pub mod Agendas
pub mod inner
