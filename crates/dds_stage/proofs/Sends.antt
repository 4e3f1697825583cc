-- Laws of what a list of events sends.
use Rattle.std.proofs.Common.{◌≡◌, List, [], ◌∷◌, ◌++◌, refl, sym, ◌∙◌, ap, subst, slice_get, None}
use Rattle.std.proofs.lemmas.List.{append-nil, append_assoc}
use Rattle.dds_stage.specs.Sends.{Sends, SentSoFar, SentAll, AddedOne}

pub none-left : {X : Type 0} (xs : List X) → slice_get xs 0 ≡ None → xs ≡ []
none-left [] h = refl
none-left (x ∷ xs) h = cc

module _ {S E T : Type 0} (sends : S → E → S → List T → Type 0) where
  pub none-yet : (old : S) (events : List E) (before : List T) → SentSoFar sends old events old events before before
  none-yet old events before = record { sent = []; added = sym (append-nil before); whole = λ new more h. h }

  pub one-more : (old now next : S) (events rest : List E) (event : E) (before between after : List T) →
      SentSoFar sends old events now (event ∷ rest) before between → AddedOne sends now event next between after →
      SentSoFar sends old events next rest before after
  one-more old now next events rest event before between after s a = record {
    sent = s.sent ++ a.sent;
    added = a.added ∙ ap (λ l. l ++ a.sent) s.added ∙ append_assoc before s.sent a.sent;
    whole = λ new more h. subst (λ l. Sends sends old events new l) (sym (append_assoc s.sent a.sent more))
        (s.whole new (a.sent ++ more) (record { middle = next; sent = a.sent; rest = more; meaning = a.meaning; then = h; whole = refl }));
  }

  pub all-sent : (old now : S) (events rest : List E) (before after : List T) → SentSoFar sends old events now rest before after → slice_get rest 0 ≡ None →
      SentAll sends old events now before after
  all-sent old now events rest before after s none = record {
    sent = s.sent;
    meaning = subst (λ l. Sends sends old events now l) (append-nil s.sent)
        (s.whole now [] (subst (λ l. Sends sends now l now []) (sym (none-left rest none)) (refl, refl)));
    added = s.added;
  }
