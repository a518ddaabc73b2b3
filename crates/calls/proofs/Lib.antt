-- WaysOut: what each way out of the two calls answers.
pub mod WaysOut
