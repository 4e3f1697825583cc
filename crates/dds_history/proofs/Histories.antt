use Rattle.std.proofs.Common.{◌≡◌, ℕ, ◌+◌, ◌<◌, List, [], ◌∷◌, ◌++◌, length, take, drop, get_or, sym, ap, subst, refl, ◌∙◌, suc, add-one, drop-cons}
use Rattle.std.proofs.lemmas.List.{take_more, take-append-drop}
use Rattle.std.specs.FinMap.{empty}
use Rattle.dds_history.specs.Map.{Map, after, reply_to}
use Rattle.dds_history.specs.History.{replay_from, replay, IsLegalFrom, IsLegal}
use Rattle.dds_history.specs.declared.entry.Entry.{Entry}

pub replay_from-append : (m : Map) (es fs : List Entry) → replay_from m (es ++ fs) ≡ replay_from (replay_from m es) fs
replay_from-append m [] fs = refl
replay_from-append m (e ∷ es) fs = replay_from-append (after m e.op) es fs

pub legal_from-push : (m : Map) (es : List Entry) (e : Entry) → IsLegalFrom m es → e.reply ≡ reply_to (replay_from m es) e.op → IsLegalFrom m (es ++ e ∷ [])
legal_from-push m [] e h r = (r, tt)
legal_from-push m (x ∷ es) e h r = (h.0, legal_from-push (after m x.op) es e h.1 r)

-- of a legal history, each entry's reply is right
pub legal_from-at : (m : Map) (es : List Entry) (e : Entry) (fs : List Entry) → IsLegalFrom m (es ++ e ∷ fs) → e.reply ≡ reply_to (replay_from m es) e.op
legal_from-at m [] e fs h = h.0
legal_from-at m (x ∷ es) e fs h = legal_from-at (after m x.op) es e fs h.1

pub replay-more : (es : List Entry) (i : ℕ) (e : Entry) → i < length es → e ≡ get_or es i e → replay (take (i + 1) es) ≡ after (replay (take i es)) e.op
replay-more es i e h is = rw (take_more es i e h, ← is) (replay_from-append empty (take i es) (e ∷ []))

pub legal-more : (es : List Entry) (i : ℕ) (e : Entry) → i < length es → e ≡ get_or es i e → IsLegal (take i es) →
    e.reply ≡ reply_to (replay (take i es)) e.op → IsLegal (take (i + 1) es)
legal-more es i e h is legal reply = rw (take_more es i e h, ← is) (legal_from-push empty (take i es) e legal reply)

pub legal-reply : (es : List Entry) (i : ℕ) (e : Entry) → i < length es → e ≡ get_or es i e → IsLegal es → e.reply ≡ reply_to (replay (take i es)) e.op
legal-reply es i e h is legal =
    let whole : take i es ++ e ∷ drop (i + 1) es ≡ es =
    rw add-one (ap (λ t. take i es ++ t) (sym (drop-cons es i e h ∙ ap (λ x. x ∷ drop (suc i) es) (sym is))) ∙ take-append-drop i es) in
    legal_from-at empty (take i es) e (drop (i + 1) es) (subst IsLegal (sym whole) legal)
