mod DecorationRows
pub mod KnownIds
mod TypeRows
