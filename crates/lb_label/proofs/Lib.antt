mod Bits
mod ListLemmas
pub mod ComponentLemmas
mod ShapeLemmas
mod Elements
mod RuleLemmas
mod UnderLemmas
mod LabelLemmas
mod TextLemmas
pub mod NameLemmas
mod ReadLemmas
mod PrintLemmas
mod ReadBackLemmas
pub mod OneLabel
pub mod Parts
