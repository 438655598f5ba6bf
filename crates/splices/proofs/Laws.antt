-- The laws that the answers cite, each in the shape of the facts that the code has at one of its returns.
pub mod Bring
pub mod Options
pub mod OptionsAdded
pub mod OptionsPut
pub mod OptionsUnion
pub mod Places
pub mod Splice
pub mod SpliceAll
pub mod SpliceDecided
pub mod SpliceElements
pub mod SpliceFits
pub mod SpliceOne
