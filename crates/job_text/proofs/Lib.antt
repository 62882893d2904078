pub mod LayoutTests
pub mod KeyLists
pub mod ListViews
pub mod SoundLists
pub mod Documents
pub mod ElementLists
