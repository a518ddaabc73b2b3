-- The bag language (section 2.1 of the paper) and the intervals (section 8.2); docs/FORMAT.md, "Bags and counts".
-- Label: a kind with a way. Part: parts and what stands in them. Bag: bags, the bags of a part, and when counts fit it.
-- Choice: when a card's neighbours meet a part. Look: what a shape looks at. Samples: the count samples. No part of a
-- promise: Named, the entries of the table of names; Proposition, the two sides of 8.1; Interval, the way of 8.2; Flat,
-- parts that are all of their links; Span, an interval as two numbers.
pub mod Label
pub mod Part
pub mod Bag
pub mod Choice
pub mod Look
pub mod Named
pub mod Proposition
pub mod Interval
pub mod Flat
pub mod Span
pub mod Samples
