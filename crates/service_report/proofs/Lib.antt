pub mod RisingLemmas
pub mod DivisorLemmas
pub mod SpanLemmas
pub mod TextLemmas
