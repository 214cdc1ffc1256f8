use Rattle.std.proofs.Common.{◌&&◌, ltb, length, sym, refl, ap, ◌∙◌}
use Rattle.std.proofs.lemmas.Bool.{le-leb}
use Rattle.accident.specs.Story.{stand_of}
use Rattle.accident.proofs.Stands.{set_up_started, set_up_refused, stands_started}
use Rattle.accident.proofs.boxes.NumberedBox.set_up.Goals as goal

pub returns-clause-at : goal.returns-clause-at
returns-clause-at g c =
    let s = set_up_started c.args.number _ _ c.in-Ok-set_up.ensures.answer in
    let t = c.in-Ok.ensures in
    record {
      number_is = refl;
      stand =
          ap (λ b. stand_of (record { number = c.args.number; ready = record { cold = b; store = c.join.result.store } })) c.join.ensures.cold
          ∙ (ap (λ m. stand_of (record { number = c.args.number; ready = record { cold = c.in-Ok-set_up.cold; store = m } })) c.join.ensures.store
          ∙ stands_started c.args.number _ c.args.row.now _ _ _ _ s.1 c.opening-book.ensures.opening t.1 t.2 t.3);
      judge = ap (λ b. b.checker) c.join.ensures.cold ∙ c.in-Ok-set_up.ensures.checker;
    }

pub returns-clause-made : goal.returns-clause-made
returns-clause-made g c =
    let s = set_up_started c.args.number _ _ c.in-Ok-set_up.ensures.answer in
    sym (ap (λ b. b && ltb c.args.number 4) (le-leb (length c.args.row.now) 64 c.in-Ok.ensures.0) ∙ s.0)

pub returns-in_default-set_up-clause-made : goal.returns-in_default-set_up-clause-made
returns-in_default-set_up-clause-made g c =
    let s = set_up_refused c.args.number _ _ c.in_default-set_up.ensures.answer in
    sym (ap (λ b. b && ltb c.args.number 4) (le-leb (length c.args.row.now) 64 c.in-Ok.ensures.0) ∙ s)
