mod Keys
mod Drawn
mod Bodies
mod Soundness
