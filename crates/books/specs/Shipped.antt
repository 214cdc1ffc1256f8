-- The book that the pool ships: the allowance over a pair of pallets and ballots.
use Rattle.std.specs.Prelude.{ℕ, List, Ok, Result}
use Rattle.book.specs.Pallets.{set_up}
use Rattle.books.specs.Allowance.{Spent, spent, no_lines}
use Rattle.books.specs.Ballots.{Paper, no_votes}
use Rattle.books.specs.Pair.{Both, both}
use Rattle.refusals.specs.Reading.{Reading, and_then}

-- the maximum, the count of lines of each account, the balances and the votes
abbrev pub Shipped : Type 0
Shipped = Spent (Both (List ℕ) (List Paper))

-- the three states of a book
pub record States (S : Type 0) : Type 0 where
  pub opening : S
  pub kept : S
  pub current : S

-- no lines made, these balances and no votes
abbrev pub opened : ℕ → List ℕ → Shipped
opened maximum balances = spent maximum no_lines (both balances no_votes)

-- as the pallet book is set up or refused, so is the shipped book
abbrev pub shipped : List ℕ → ℕ → Result (States Shipped) Reading
shipped balances maximum = and_then (set_up balances) (λ p. Ok (record { opening = opened maximum p.opening; kept = opened maximum p.opening; current = opened maximum p.opening }))
