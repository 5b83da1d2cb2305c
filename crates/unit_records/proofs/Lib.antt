pub mod WrittenRead
pub mod RecordParts
pub mod FittingRecords
