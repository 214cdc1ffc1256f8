-- The ballot book: what each account has voted on each topic.
use Rattle.std.specs.Prelude.{ℕ, Bool, false, cond, not, ◌&&◌, List, [], replicate, is_some, Some, None, count_by, Option, ◌==◌, nat_le, slice_index, slice_index_or, slice_set}
use Rattle.book.specs.Line.{kind, zeros}
use Rattle.books.specs.declared.ballots.Vote.{Vote}
use Rattle.books.specs.declared.ballots.BallotQuestion.{BallotQuestion}

-- kind 2 alone
abbrev pub ballot_kinds : ℕ → Bool
ballot_kinds k = k == 2

-- the votes of one account: for each topic a choice, or none
abbrev pub Paper : Type 0
Paper = List (Option ℕ)

unfoldable pub no_votes : List Paper
no_votes = replicate 64 (replicate 16 None)

abbrev pub paper : List Paper → ℕ → Paper
paper papers account = slice_index_or papers account []

-- the form of a line of kind 2
abbrev pub ballot_formed : List ℕ → Bool
ballot_formed line = ballot_kinds (kind line) && nat_le (slice_index line 1) 15 && nat_le (slice_index line 2) 3 && zeros 3 13 line

-- what a line of the right form says
abbrev pub vote_in : List ℕ → Option Vote
vote_in line = cond (ballot_formed line) (Some (record { topic = slice_index line 1; choice = slice_index line 2 })) None

-- the issuer is an account that has not voted on the topic
abbrev pub may_vote : List Paper → ℕ → Option Vote → Bool
may_vote papers issuer None = false
may_vote papers issuer (Some v) = nat_le issuer 63 && not (is_some (slice_index_or (paper papers issuer) v.topic None))

abbrev pub voted : List Paper → ℕ → Option Vote → List Paper
voted papers issuer None = papers
voted papers issuer (Some v) = slice_set papers issuer (slice_set (paper papers issuer) v.topic (Some v.choice))

abbrev pub ballot_valid : List Paper → ℕ → List ℕ → Bool
ballot_valid papers issuer line = may_vote papers issuer (vote_in line)

abbrev pub ballot_next : List Paper → ℕ → List ℕ → List Paper
ballot_next papers issuer line = voted papers issuer (vote_in line)

abbrev pub is : ℕ → Option ℕ → Bool
is choice None = false
is choice (Some chosen) = chosen == choice

-- a paper has this choice on the topic
abbrev pub chose : ℕ → ℕ → Paper → Bool
chose topic choice votes_of_one = is choice (slice_index_or votes_of_one topic None)

-- how many accounts have voted so
abbrev pub votes : List Paper → ℕ → ℕ → ℕ
votes papers topic choice = count_by (chose topic choice) papers

-- none where there is no such topic or choice
abbrev pub ballot_answer : List Paper → BallotQuestion → Option ℕ
ballot_answer papers q = cond (nat_le q.topic 15 && nat_le q.choice 3) (Some (votes papers q.topic q.choice)) None
