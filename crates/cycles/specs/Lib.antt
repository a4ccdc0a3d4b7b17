-- The cycle test on small numbers: pairs as columns, the relation, the queue of numbers that may be taken out, and what each step does.
pub mod Pair
pub mod Graph
pub mod Queue
pub mod Counters
