mod FreeLemmas
pub mod LineFeedLemmas
pub mod MemberLemmas
pub mod RowLemmas
