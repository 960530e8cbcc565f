mod CleanLemmas
mod CutLemmas
mod JarLemmas
pub mod Meaning
mod OrderLemmas
mod ValueLemmas
