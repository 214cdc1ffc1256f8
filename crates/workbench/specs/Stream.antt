-- A stream of certificates, each after its length in two bytes, and what a box answers to it.
use Rattle.std.specs.Prelude.{ℕ, zero, suc, ◌+◌, ◌*◌, Bool, cond, List, [], ◌∷◌, length, drop, Some, None, Ok, Err, Option, Result, nat_lt, slice_index}
use Rattle.std.specs.List.{between}
use Rattle.refusals.specs.Reading.{Reading, cause}
use Rattle.book.specs.declared.Book.{Ghosts}
use Rattle.seals.specs.declared.Checker.{Ghosts as Judging}
use Rattle.settlement.specs.declared.cold.ColdBox.{ColdBox}
use Rattle.settlement.specs.Box.{BoxState, take_answer, take_box}
use Rattle.settlement.specs.Seen.{state_of}
use Rattle.workbench.specs.declared.answer.Answer.{Answer}
use Rattle.workbench.specs.declared.answer.Answer.TheVariants.{Settled, Refused}

-- the first certificate's length, big-endian; none where it is cut short
abbrev pub first_size : List ℕ → ℕ
first_size stream = slice_index stream 0 * 256 + slice_index stream 1

abbrev pub frame_size : List ℕ → Option ℕ
frame_size stream = cond (nat_lt (length stream) 2) None (cond (nat_lt (length stream) (2 + first_size stream)) None (Some (first_size stream)))

-- at most k certificates from the start of a stream; each takes two bytes at least, so its length is enough for all
abbrev pub then_frames : (List ℕ → List (List ℕ)) → List ℕ → Option ℕ → List (List ℕ)
then_frames more stream None = []
then_frames more stream (Some size) = between 2 (2 + size) stream ∷ more (drop (2 + size) stream)

abbrev pub frames_up_to : ℕ → List ℕ → List (List ℕ)
frames_up_to zero stream = []
frames_up_to (suc k) stream = then_frames (frames_up_to k) stream (frame_size stream)

unfoldable pub certificates_in : List ℕ → List (List ℕ)
certificates_in stream = frames_up_to (length stream) stream

-- what is told of a take: the count of settled dockets, or the refusal's cause
abbrev pub told : Result ℕ Reading → Answer
told (Ok count) = Settled count
told (Err fault) = Refused (cause fault)

-- a box takes certificates one after another
abbrev pub answers_to : {State : Type 0} → (State → ℕ → List ℕ → Bool) → (State → ℕ → List ℕ → State) → (ℕ → List ℕ → List ℕ → Bool) → BoxState State → List (List ℕ) → List Answer
answers_to valid next good b [] = []
answers_to valid next good b (c ∷ cs) = told (take_answer valid next good b c) ∷ answers_to valid next good (take_box valid next good b c) cs

-- the same of a box value, by what its book and its checker show
abbrev pub answers_of : {B C Q A : Type 0} → Ghosts B Q A → Judging C → ColdBox B C → List (List ℕ) → List Answer
answers_of k g b cs = answers_to k.valid k.next (g.good b.checker) (state_of k b) cs
