-- Laws of the trace's bytes.
pub mod InsideLaws
