pub mod Changes
pub mod Folders
pub mod MemoryFolders
pub mod Shelves
pub mod SiteFiles
