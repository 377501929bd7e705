pub mod StoredRow
pub mod FieldOrder
pub mod RowLine
pub mod LineForm
pub mod PlainText
pub mod Standing
