mod FieldsTaken
mod ItemsTaken
mod RowsTaken
mod Slots
mod Taking
mod Told
