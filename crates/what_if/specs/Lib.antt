pub mod WhatIf
pub mod Ends
pub mod Worked
