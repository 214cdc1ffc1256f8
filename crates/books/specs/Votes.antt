-- A vote changes its issuer's paper alone, so votes of two issuers can be made in either order.
use Rattle.std.specs.Prelude.{◌≡◌, ℕ, true, ◌≢◌, List, Some, None, Option, slice_set, refl}
use Rattle.std.proofs.Common.{ap, sym, ◌∙◌}
use Rattle.book.specs.Law.{Move, EitherOrder}
use Rattle.books.specs.Ballots.{Paper, paper, vote_in, may_vote, voted, ballot_valid, ballot_next}
use Rattle.books.specs.declared.ballots.Vote.{Vote}
use Rattle.std.proofs.lemmas.List.{get_or-set_other, set_comm}

other_paper : (papers : List Paper) (a b : ℕ) (v : Option Vote) → b ≢ a → paper (voted papers a v) b ≡ paper papers b
other_paper papers a b None apart = refl
other_paper papers a b (Some v) apart = rw get_or-set_other

stays : (papers after : List Paper) (a : ℕ) (v : Option Vote) → paper after a ≡ paper papers a → may_vote papers a v ≡ true → may_vote after a v ≡ true
stays papers after a None same valid = valid
stays papers after a (Some v) same valid = rw same valid

same_end : (papers : List Paper) (a b : ℕ) (v w : Option Vote) → a ≢ b → voted (voted papers a v) b w ≡ voted (voted papers b w) a v
same_end papers a b None w apart = refl
same_end papers a b (Some v) None apart = refl
same_end papers a b (Some v) (Some w) apart =
    let apart' : b ≢ a = λ e. apart (sym e) in
    let mine = slice_set (paper papers a) v.topic (Some v.choice) in
    let yours = slice_set (paper papers b) w.topic (Some w.choice) in
    ap (λ p. slice_set (slice_set papers a mine) b (slice_set p w.topic (Some w.choice))) (other_paper papers a b (Some v) apart')
    ∙ set_comm papers a b mine yours apart
    ∙ ap (λ p. slice_set (slice_set papers b yours) a (slice_set p v.topic (Some v.choice))) (sym (other_paper papers b a (Some w) apart))

pub either_order : (papers : List Paper) (m n : Move) → m.account ≢ n.account → ballot_valid papers m.account m.line ≡ true → ballot_valid papers n.account n.line ≡ true → EitherOrder ballot_valid ballot_next papers m n
either_order papers m n apart c d =
    let v = vote_in m.line in
    let w = vote_in n.line in
    let apart' : n.account ≢ m.account = λ e. apart (sym e) in
    record {
      first_stays = stays papers (voted papers n.account w) m.account v (other_paper papers n.account m.account w apart) c;
      second_stays = stays papers (voted papers m.account v) n.account w (other_paper papers m.account n.account v apart') d;
      same_end = same_end papers m.account n.account v w apart;
    }
