-- The pool's promise. Assumes nothing but the law of the book.
use Rattle.std.proofs.Common.{◌≡◌, ℕ, ◌+◌, ◌<◌, ◌≤◌, Bool, cond, not, eqb, ltb, leb, List, [], ◌∷◌, map, length, drop, Some, None, Ok, Option, sym, refl, ap, ◌∙◌, subst, inl, inr, arith}
use Rattle.std.proofs.lemmas.Bool.{ltb-false}
use Rattle.refusals.specs.Reading.{found}
use Rattle.refusals.specs.declared.Layer.TheVariants as layer
use Rattle.refusals.specs.declared.Cause.TheVariants as cause
use Rattle.refusals.proofs.Steps.{never, ok_then, ok_unless, ok_within}
use Rattle.docket.specs.declared.Docket.{Docket}
use Rattle.docket.specs.Layout.{encoded, read_docket}
use Rattle.certificate.specs.declared.table.Entry.{Entry}
use Rattle.certificate.specs.Contents.{Contents}
use Rattle.certificate.specs.Table.{Rising}
use Rattle.certificate.specs.Layout.{read_certificate}
use Rattle.certificate.proofs.Accepted.{accepted as read-accepted}
use Rattle.seals.specs.Texts.{countersign_text}
use Rattle.book.specs.Law.{WeaklyIndependent}
use Rattle.marks.specs.Marks.{ReadsBack}
use Rattle.settling.specs.Window.{account_of, waiting}
use Rattle.settling.specs.Settle.{Ledger}
use Rattle.settling.specs.Order.{In, Within, took, took_all, SettlingIsOrderFree}
use Rattle.settling.proofs.OrderRuns.{in_turn_lem}
use Rattle.settling.proofs.OrderFree.{order_free}
use Rattle.settlement.specs.Accept.{first_bad, unless_bad, accepted}
use Rattle.settlement.specs.Box.{started_box}
use Rattle.settlement.proofs.Order.{ledger_of}
use Rattle.pool.specs.Ready.{StoreState}
use Rattle.pool.specs.History.{Call, History, Moment, at_setup}
use Rattle.pool.specs.Promise.{Among, Pool, boxes, needed, Faithful, Accepted, moment_after, MomentOf, SealsHold, Agreement, PoolsAgree}
use Rattle.pool.proofs.Again.{read_again, same_layout}
use Rattle.pool.proofs.Marks.{not_false_eq, OwnAndRead}
use Rattle.pool.proofs.Moments.{StoreHolds, Holds, holds_calls}
use Rattle.pool.proofs.Quorum.{Rise, quorums_share}

-- what an accepted certificate is
record Certified (pool count quorum : ℕ) (bs : List ℕ) (d : Docket) : Type 0 where
  contents : Contents
  read : read_certificate count bs ≡ Ok contents
  docket : contents.docket ≡ d
  of_pool : d.pool ≡ pool
  enough : quorum ≤ length contents.entries
  again : read_docket (encoded d) ≡ Ok d

unless_bad_lem : (x d : Docket) (o : Option ℕ) → unless_bad x o ≡ Ok d → x ≡ d
unless_bad_lem x d None h = cc
unless_bad_lem x d (Some place) h = absurd (never _ d h)

certified : (good : ℕ → List ℕ → List ℕ → Bool) (pool count quorum : ℕ) (bs : List ℕ) (d : Docket) → pool < 4294967296 → accepted good pool count quorum bs ≡ Ok d → Certified pool count quorum bs d
unfolding accepted
certified good pool count quorum bs d small h =
    let r = ok_then _ _ d h in
    let k = r.0 in
    let is = ok_within _ _ _ k r.1 in
    let p = ok_unless (not (eqb k.docket.pool pool)) (found layer.Box cause.AnotherPool 0) _ d r.2 in
    let q = ok_unless (ltb (length k.entries) quorum) (found layer.Box cause.TooFewEntries 0) _ d p.1 in
    let same = unless_bad_lem k.docket d (first_bad good bs k.docket 4 k.entries) q.1 in
    let named : k.docket.pool ≡ pool = not_false_eq _ _ p.0 in
    record {
      contents = k;
      read = is;
      docket = same;
      of_pool = ap (λ (x : Docket). x.pool) (sym same) ∙ named;
      enough = ltb-false _ _ q.0;
      again = subst (λ x. read_docket (encoded x) ≡ Ok x) same (read_again _ k.docket (read-accepted count bs k is).docket (subst (λ n. n < 4294967296) (sym named) small));
    }

-- the box numbers of entries
abbrev numbers : List Entry → List ℕ
numbers es = map (λ e. e.signer.number) es

rise : (n least : ℕ) (es : List Entry) → Rising n least es → Rise n least (numbers es)
rise n least [] r = tt
rise n least (e ∷ es) r = (r.0, r.1, rise n (e.signer.number + 1) es r.2)

same_length : (es : List Entry) → length (numbers es) ≡ length es
same_length [] = refl
same_length (e ∷ es) = let s = same_length es in omega arith

below : (n least b : ℕ) (bs : List ℕ) → Rise n least bs → Among b bs → b < n
below n least b [] r i = absurd i
below n least b (c ∷ bs) r (inl e) = let x = r.1 in omega arith
below n least b (c ∷ bs) r (inr i) = below n (c + 1) b bs r.2 i

entry_of : (b : ℕ) (es : List Entry) → Among b (numbers es) → (e : Entry) × Among e es × (e.signer.number ≡ b)
entry_of b [] i = absurd i
entry_of b (e ∷ es) (inl s) = (e, inl refl, sym s)
entry_of b (e ∷ es) (inr i) = let r = entry_of b es i in (r.0, inr r.1, r.2)

-- the docket of a text
docket_of_lem : (number : ℕ) (text : List ℕ) (ds : List Docket) → Among text (map (λ d. countersign_text number (encoded d)) ds) → (d : Docket) × In d ds × (text ≡ countersign_text number (encoded d))
docket_of_lem number text [] i = absurd i
docket_of_lem number text (d ∷ ds) (inl e) = (d, inl refl, e)
docket_of_lem number text (d ∷ ds) (inr i) = let r = docket_of_lem number text ds i in (r.0, inr r.1, r.2)

same_text : (number : ℕ) (xs ys : List ℕ) → countersign_text number xs ≡ countersign_text number ys → xs ≡ ys
same_text number xs ys e = ap (drop 2) e

-- a docket whose text a box has released is among the dockets that it vouches for
vouched : (number : ℕ) (s : StoreState) (texts : List (List ℕ)) (d : Docket) (h : StoreHolds number s texts) → read_docket (encoded d) ≡ Ok d → Among (countersign_text number (encoded d)) texts → In d h.dockets
vouched number s texts d h again i =
    let r = docket_of_lem number _ h.dockets (subst (Among (countersign_text number (encoded d))) h.texts_are i) in
    subst (λ x. In x h.dockets) (sym (same_layout d r.0 again (h.again r.0 r.1) (same_text number _ _ r.2))) r.1

own_at_setup : (h : History) → OwnAndRead h.store
own_at_setup h a d e = (subst (λ o. ReadsBack o) e (h.back a), (h.own a d e).1)

module _ {State : Type 0} (valid : State → ℕ → List ℕ → Bool) (next : State → ℕ → List ℕ → State) (opening : State) (p : Pool) where
  holds : (b : ℕ) (calls : List Call) → Holds valid next p.good p.number b p.f opening p.small (moment_after valid next opening p b calls)
  holds b calls = holds_calls valid next p.good p.number b p.f opening p.small (at_setup (started_box p.number b p.f opening) (p.history b).store) calls (record {
    box = record { level = refl; run = refl };
    store = record {
      own = own_at_setup (p.history b);
      dockets = [];
      texts_are = refl;
      again = λ d i. absurd i;
      behind = λ d i. absurd i;
      unique = λ d e i. absurd i;
    };
  })

  module _ (premise : SealsHold valid next opening p) where
    -- a faithful box with an entry in an accepted certificate vouches for its docket
    vouches : (b : ℕ) (bs : List ℕ) (d : Docket) (c : Certified p.number (boxes p) (needed p) bs d) → Accepted p bs d → Faithful p b → Among b (numbers c.contents.entries) → In d (holds b (p.history b).calls).store.dockets
    vouches b bs d c accepts faithful i =
        let e = entry_of b c.contents.entries i in
        let text = premise bs c.contents c.read (subst (Accepted p bs) (sym c.docket) accepts) e.0 e.1 (subst (Faithful p) (sym e.2) faithful) in
        let mine = subst (λ n. Among (countersign_text n (encoded c.contents.docket)) (moment_after valid next opening p n (p.history n).calls).released) e.2 text in
        vouched b _ _ d (holds b (p.history b).calls).store c.again (subst (λ x. Among (countersign_text b (encoded x)) (moment_after valid next opening p b (p.history b).calls).released) c.docket mine)

    one_docket : (xs ys : List ℕ) (d e : Docket) → Accepted p xs d → Accepted p ys e → d.account ≡ e.account → d.number ≡ e.number → d ≡ e
    one_docket xs ys d e ax ay ea en =
        let x = certified p.good p.number (boxes p) (needed p) xs d p.small ax in
        let y = certified p.good p.number (boxes p) (needed p) ys e p.small ay in
        let rx = rise (boxes p) 0 x.contents.entries (read-accepted (boxes p) xs x.contents x.read).rising in
        let ry = rise (boxes p) 0 y.contents.entries (read-accepted (boxes p) ys y.contents y.read).rising in
        let lx = same_length x.contents.entries in
        let ly = same_length y.contents.entries in
        let nx = x.enough in
        let ny = y.enough in
        let s = quorums_share (boxes p) p.f (needed p) (numbers x.contents.entries) (numbers y.contents.entries) p.faulty (omega arith) p.few rx ry (omega arith) (omega arith) in
        let faithful : Faithful p s.box = (below (boxes p) 0 s.box (numbers x.contents.entries) rx s.first, s.sound) in
        (holds s.box (p.history s.box).calls).store.unique d e (vouches s.box xs d x ax faithful s.first) (vouches s.box ys e y ay faithful s.second) ea en

  module _ (law : WeaklyIndependent valid next opening) where
    free : SettlingIsOrderFree valid next opening
    free = order_free valid next opening law

    took_all_lem : (b : ℕ) (m : Moment State) → MomentOf valid next opening p b m → took_all valid next opening m.taken ≡ Some (ledger_of m.box)
    took_all_lem b m o =
        subst (λ (x : Moment State). took_all valid next opening x.taken ≡ Some (ledger_of x.box)) (sym o.is)
        (in_turn_lem (took valid next) _ _ (moment_after valid next opening p b o.before).taken (holds b o.before).box.run)

    same_ledger : (b c : ℕ) (m n : Moment State) → MomentOf valid next opening p b m → MomentOf valid next opening p c n → Within m.taken n.taken → Within n.taken m.taken → ledger_of m.box ≡ ledger_of n.box
    same_ledger b c m n om on more less = free.same_outcome m.taken n.taken _ _ (took_all_lem b m om) (took_all_lem c n on) more less

    pub pool_agrees : SealsHold valid next opening p → Agreement valid next opening p
    pool_agrees premise = record {
      one_docket = one_docket premise;
      alike = λ b c m n fb fc om on more less.
          let same = same_ledger b c m n om on more less in
          record {
            current = ap (λ (l : Ledger State). l.state) same;
            next_numbers = λ a. ap (λ (l : Ledger State). cond (leb a 63) (Some (account_of l.accounts a).next) None) same;
            waiting = λ a k. ap (λ (l : Ledger State). cond (leb a 63) (waiting (account_of l.accounts a) k) None) same;
          };
      settles_no_less = λ b c m n fb fc om on more d s. (more d s.0, free.more_settle m.taken n.taken _ _ (took_all_lem b m om) (took_all_lem c n on) more d s.1);
    }

-- The promise, for every book with its law.
pub pools_agree : {State : Type 0} (valid : State → ℕ → List ℕ → Bool) (next : State → ℕ → List ℕ → State) (opening : State) → WeaklyIndependent valid next opening → PoolsAgree valid next opening
pools_agree valid next opening law p = pool_agrees valid next opening p law
