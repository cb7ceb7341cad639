-- `timer_float::float` meets its contract: the casts to f64 lose nothing, the cast back cuts, and the result is the whole engine's, by `Agree`. Assumes nothing.
use mathlib.Core.Path.{◌∙◌}
use Rattle.timer_float.specs.Float.{mix_of}
use Rattle.timer_float.proofs.Agree.{cast_is, agree}
use Rattle.timer_float.proofs.float.Goals as goal

pub returns : goal.returns
unfolding mix_of
returns c =
    let a = c.args in
    let e = c.saturating_f64_to_u64.ensures ∙ cast_is a.old a.sample c.requires.old c.requires.sample in
    record { float = e; whole = e ∙ agree a.old a.sample c.requires.old c.requires.sample }
