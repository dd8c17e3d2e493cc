mod Naming
mod NamingLemmas
mod TableLemmas
mod KeptLemmas
mod KindLemmas
