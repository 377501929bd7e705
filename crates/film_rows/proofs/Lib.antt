pub mod Answering
pub mod FilmTrees
pub mod Fitting
pub mod Knowing
pub mod Refusing
pub mod Standing
