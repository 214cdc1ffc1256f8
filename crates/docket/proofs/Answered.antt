-- What the reader and the writer answer, by the place of what is wrong. Assumes nothing.
use Rattle.std.proofs.Common.{◌≡◌, ◌≢◌, ℕ, ◌<◌, ◌≤◌, Bool, true, List, [], ◌∷◌, ◌++◌, length, get_or, drop, Some, None, Ok, Err, Option, ◌∙◌}
use Rattle.std.specs.Int.{w32, w64, to_be_bytes}
use Rattle.std.specs.List.{between, flat_map}
use Rattle.std.proofs.lemmas.Bool.{eq-eqb, ne_eqb, lt-ltb, le-ltb}
use Rattle.std.proofs.lemmas.List.{append-nil, append_assoc}
use Rattle.refusals.specs.Reading.{Reading, found}
use Rattle.refusals.specs.declared.Layer.TheVariants as layer
use Rattle.refusals.specs.declared.Cause.TheVariants as cause
use Rattle.docket.specs.declared.Docket.{Docket}
use Rattle.docket.specs.Layout.{blank, wrong_place, decoded, encoded, unless_wrong, read_docket, write_answer, write_buffer}

pub read_by_place :
    (bs : List ℕ) (d : Docket) (clear : Bool) (o : Option ℕ) → length bs ≡ 80 → d ≡ decoded bs
    → clear ≡ blank (between 6 8 bs) → o ≡ wrong_place d clear → unless_wrong d o ≡ read_docket bs
unfolding read_docket
read_by_place bs d clear o h e f g = let t = eq-eqb (length bs) 80 h in cc

pub read_wrong_length : (bs : List ℕ) → length bs ≢ 80 → Err (found layer.Docket cause.Malformed (length bs)) ≡ read_docket bs
unfolding read_docket
read_wrong_length bs h = let t = ne_eqb (length bs) 80 h in cc

pub write_wrong : (d : Docket) (out : List ℕ) (place : ℕ) → Some place ≡ wrong_place d true → Err (found layer.Docket cause.Malformed place) ≡ write_answer d out
unfolding write_answer
write_wrong d out place e = cc

pub write_short : (d : Docket) (out : List ℕ) → None ≡ wrong_place d true → length out < 80 → Err (found layer.Docket cause.ShortBuffer 0) ≡ write_answer d out
unfolding write_answer
write_short d out e h = let t = lt-ltb (length out) 80 h in cc

pub write_fits : (d : Docket) (out : List ℕ) → None ≡ wrong_place d true → 80 ≤ length out → Ok (tt {0}) ≡ write_answer d out
unfolding write_answer
write_fits d out e h = let t = le-ltb (length out) 80 h in cc

pub buffer_same : (d : Docket) (out : List ℕ) (r : Reading) → Err r ≡ write_answer d out → out ≡ write_buffer d out
unfolding write_buffer
buffer_same d out r e = cc

pub buffer_written :
    (d : Docket) (out part : List ℕ) → Ok (tt {0}) ≡ write_answer d out → part ≡ encoded d → part ++ drop 80 out ≡ write_buffer d out
unfolding write_buffer
buffer_written d out part e f = cc

-- the five rows that a docket is laid out in, with its pool and its number as bytes
abbrev pub rows_of : Docket → List ℕ → List ℕ → List (List ℕ)
rows_of d p n =
    (get_or p 0 0 ∷ get_or p 1 0 ∷ get_or p 2 0 ∷ get_or p 3 0 ∷ d.account ∷ d.count ∷ 0 ∷ 0
    ∷ get_or n 0 0 ∷ get_or n 1 0 ∷ get_or n 2 0 ∷ get_or n 3 0 ∷ get_or n 4 0 ∷ get_or n 5 0 ∷ get_or n 6 0 ∷ get_or n 7 0 ∷ [])
    ∷ get_or d.lines 0 [] ∷ get_or d.lines 1 [] ∷ get_or d.lines 2 [] ∷ get_or d.lines 3 [] ∷ []

pub laid_out :
    (d : Docket) (p n out : List ℕ) → p ≡ to_be_bytes w32 d.pool → n ≡ to_be_bytes w64 d.number
    → out ≡ flat_map (λ row. row) (rows_of d p n) → out ≡ encoded d
unfolding encoded
laid_out d p n out e f r = r ∙ simp (e, f, append-nil, append_assoc)
