-- `sender_send::table::ranked` meets its contract: what the walk finds stands at its place. Assumes nothing.
use mathlib.Core.Path.{sym}
use native.Mathlib.Omega.{arith}
use borrow.Author.Rules.{rules}
use Rattle.sender_state.proofs.Facts.{ruled}
use Rattle.sender_state.proofs.Search.{tidy}
use Rattle.sender_state.specs.Table.{◌!◌}
use Rattle.sender_send.specs.Steps.{RanksAt}
use Rattle.sender_send.proofs.Ranks.{ranks_at, ranks_none}
use Rattle.sender_send.proofs.table.ranked.Goals.{After-place_of-place}
use Rattle.sender_send.proofs.table.ranked.Goals as goal

pub number_at-requires : goal.number_at-requires
number_at-requires c = tidy c.args.s.now (search rules) (search rules) (omega arith) (ruled c.args.s.now c.requires.0) _ c.requires.1

pub returns-in_err-number : goal.returns-in_err-number
returns-in_err-number c = rw c.from_residual.ensures (ranks_none _ _ (sym c.in_err-number.ensures))

found : (c : After-place_of-place) → let a = c.args in
    RanksAt a.s.now a.wanted a.rank (record { number = record { 0 = c.in_ok-number.number }; place = c.place_of-place.result; size = a.s.now.lengths ! c.place_of-place.result })
found c = ranks_at c.args.s.now (search rules) (search rules) (omega arith) c.requires.0 _ _ _ _ c.requires.1 (sym c.in_ok-number.ensures) c.place_of-place.ensures

pub offset_bounds-s-place : goal.offset_bounds-s-place
offset_bounds-s-place c = let f = (found (goal.at.offset_bounds-s-place c).After-place_of-place).stands in omega arith

pub bounds-s-place : goal.bounds-s-place
bounds-s-place c = (found (goal.at.bounds-s-place c).After-place_of-place).stands.low

pub returns : goal.returns
returns c = found (goal.at.returns c).After-place_of-place
