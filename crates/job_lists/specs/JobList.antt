-- The tile list of an accepted job, and what is proved of it. Statements only; proofs/Accepted.antt and proofs/Printed.antt prove them.
use Rattle.std.specs.Prelude.{ℕ, ◌≡◌, List, ◌++◌}
use Rattle.std.proofs.Math.Option.{some}
use Rattle.state.specs.State.{reading}
use Rattle.state.specs.Call.{number_of, lent}
use Rattle.input.specs.Job.{Job}
use Rattle.input.specs.Limit.{default_limit}
use Rattle.sampling.specs.Sample.{sampled}
use Rattle.rules.specs.Calls.{job_call}
use Rattle.rules.specs.Demands.{sampled_loops}
use Rattle.job_text.specs.Drawing.{Drawing, job_of}
use Rattle.job_text.specs.Reading.{read_job}
use Rattle.plate_text.specs.PaveText.{pave_text}
use Rattle.loop_text.specs.SampledText.{sampled_text}
use Rattle.tile_text.specs.TileList.{TileList, list_text}
use Rattle.tile_text.specs.Readable.{F64s}
use Rattle.tile_list.specs.Recheck.{recheck_text}

-- the loops that sampling made, and the state that the job left
abbrev pub job_list : Job → TileList
job_list j = record { loops = sampled_loops (sampled j); state = reading (job_call j lent).held }

pub record JobLists : Type 0 where
  -- what a job with the default corner limit left, written behind its sampled loops, is accepted; its coordinates are f64s
  pub accepted : (j : Job) → F64s j.coords → j.options.corner_limit ≡ default_limit → number_of (job_call j lent) ≡ 0 → recheck_text (list_text (job_list j)) ≡ list_text (job_list j)
  -- so what `loops` and then `pave` print for the text of an accepted job is accepted
  pub printed : (t : List ℕ) (d : Drawing) → read_job t ≡ some d → number_of (job_call (job_of d) lent) ≡ 0 → recheck_text (sampled_text t ++ pave_text t) ≡ sampled_text t ++ pave_text t
