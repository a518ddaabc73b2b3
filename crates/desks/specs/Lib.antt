-- ThreeGrids: what the call for both desks asks for. No part of a promise.
pub mod ThreeGrids
