pub mod ParseLemmas
pub mod RepeatLemmas
pub mod SettingLemmas
pub mod TakesLemmas
