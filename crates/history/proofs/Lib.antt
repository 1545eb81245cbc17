-- The theorems on what the decisions of a plan tell, and on what holds of it all along.
pub mod Good
pub mod Changes
pub mod PassGood
pub mod StartsGood
pub mod SumLaws
pub mod PrefixesLaws
pub mod CutLaws
pub mod TimesLaws
