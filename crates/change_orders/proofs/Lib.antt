mod Changing
mod GivenLists
mod KeyedRecords
mod KeyedTypes
mod KeysOnce
mod LineRecords
mod ReadKeys
mod ReadRecords
