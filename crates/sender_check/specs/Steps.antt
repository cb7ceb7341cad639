-- The rules as the check tests them. No promise of a call that a host makes needs this page.
use Rattle.std.specs.Prelude.{ℕ, zero, suc, ◌+◌, Bool, true, false, ◌&&◌, List, leb, ltb, eqb, take}
use Rattle.terms.specs.Ladder.{◌when◌else◌}
use Rattle.terms.specs.Lists.{all}
use Rattle.sender_state.specs.Table.{◌!◌, ◌unless◌, is_free, is_waiting, differs}
use Rattle.sender_state.specs.Places.{Places, place_in}
use Rattle.sender_state.specs.Rules.{is_emptied}
use Rattle.sender_state.specs.declared.Place.{Place}
use Rattle.sender_check.specs.declared.Limits.{Limits}

-- the test p passes at each index below n
unfoldable pub every : ℕ → (ℕ → Bool) → Bool
every zero p = true
every (suc n) p = every n p && p n

-- a number that is not 0 is alone where it stands at no index below
unfoldable pub alone_at : List ℕ → ℕ → Bool
alone_at numbers i = all (differs (numbers ! i)) (take i numbers) unless eqb (numbers ! i) 0

-- the rules of one place together, as the code tests them: bound is next, or the lowest waiting number where that is below it
unfoldable pub place_holds : Limits → ℕ → Place → Bool
place_holds l i p =
    is_emptied p when is_free p.mark else
    false when leb l.count i else
    false when ltb p.number.0 1 else
    false when ltb p.size 22 else
    false when ltb (l.chunk + 1044) p.size else
    false when ltb 1 p.resent else
    (eqb p.sent 0 && (eqb p.resent 0 && ltb p.number.0 l.next.0)) when is_waiting p.mark else
    false when ltb 2 p.mark else
    (ltb p.number.0 l.bound.0 && leb p.sent l.clock)

-- and of the place at an index
abbrev pub holds_at : Limits → Places → ℕ → Bool
holds_at l p i = place_holds l i (place_in p i)
