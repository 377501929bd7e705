pub mod BucketSpread
pub mod RecordSpread
pub mod Walk
