pub mod SeenDelta
