pub mod Star  -- laws of the closures
pub mod Closes  -- the condition is monotone in set and sense; each sense implies the weak one
pub mod SenseForms  -- the one condition says what each sense says
pub mod Confluence  -- one representative a class, and that reducing loses nothing
pub mod Compose  -- maps that keep branching bisimilarity compose
pub mod Renumbered  -- what a reduction leaves keeps branching bisimilarity and has no silent ring
pub mod Once  -- under R8 what a reduction leaves has no hop in any set of R8
pub mod Branching  -- such maps and branching bisimulations
