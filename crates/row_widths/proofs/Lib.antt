pub mod BucketSpreads
pub mod ListSpreads
pub mod LiveBytes
pub mod RecordSpreads
pub mod Steps
