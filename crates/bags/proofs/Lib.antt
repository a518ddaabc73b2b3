-- The laws of the bag language, lowest first.
-- Powers, Copies, Totals: sums of i bags, of a link's bags, and their counts.
-- Repetitions, Exact: a part's interval, and Fits by it. Looking: what a shape looks at. Opening: open and closed
-- shapes. Decide: the test for Fits. Samples: P1 to P12, and an open shape.
-- Choosing: Met by counts.
-- Spans: the same operations on two numbers. Flatness: the interval of a flat part, by its links. Joining: joining
-- intervals, and wrappers around them. Zeros: where all labels count 0. Adequate: the definitions are those of sections
-- 2.1 and 3.2 of the paper.
pub mod Powers
pub mod Copies
pub mod Totals
pub mod Naming
pub mod Intervals
pub mod Repetitions
pub mod Exact
pub mod Looking
pub mod Opening
pub mod Decide
pub mod Samples
pub mod Choosing
pub mod Spans
pub mod Flatness
pub mod Zeros
pub mod Joining
pub mod Adequate
