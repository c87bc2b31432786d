pub mod SampledText
