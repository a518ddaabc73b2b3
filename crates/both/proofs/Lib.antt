-- WaysOut: what each way out of the call answers.
pub mod WaysOut
