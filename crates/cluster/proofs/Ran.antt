-- A run, request by request.
use Rattle.std.proofs.Common.{◌≡◌, ℕ, ◌+◌, ◌<◌, List, [], ◌∷◌, length, get_or, drop, Option, sym, refl, ap, ◌∙◌, subst}
use Rattle.std.proofs.lemmas.List.{drop_more}
use Rattle.catalogue.specs.declared.row.Row.{Row}
use Rattle.versioning.specs.declared.request.Request.{Request}
use Rattle.versioning.specs.Machine.{State, Answer, History, rows_of, start, reply, after, answered, final}
use Rattle.versioning.specs.Serial.{InSerialOrder}
use Rattle.versioning.proofs.Runs.{serial_order}
use Rattle.cluster.specs.Runs.{replies, history}
use Rattle.cluster.specs.View.{paired}

pub rows_paired : (cs : List (List Row)) (vs : List (List ℕ)) → rows_of (paired cs vs) ≡ cs
rows_paired [] vs = refl
rows_paired (rows ∷ cs) [] = ap (λ (xs : List (List Row)). rows ∷ xs) (rows_paired cs [])
rows_paired (rows ∷ cs) (v ∷ vs) = ap (λ (xs : List (List Row)). rows ∷ xs) (rows_paired cs vs)

module _ {V K : Type 0} (pack : V → Row) (unpack : K → Row → Option V) where
  history_is : (s : State) (qs : List (Request V K)) → history qs (replies pack unpack s qs) ≡ answered pack unpack s qs
  history_is s [] = refl
  history_is s (q ∷ qs) = ap (λ (h : History V K). (q, reply pack unpack s q) ∷ h) (history_is (after pack unpack s q) qs)

  module _ (s s' : State) (qs : List (Request V K)) (i : ℕ) (q : Request V K) (l : i < length qs) (is : q ≡ get_or qs i q) (later : s' ≡ after pack unpack s q) where
    left : drop i qs ≡ q ∷ drop (i + 1) qs
    left = drop_more qs i q l ∙ ap (λ (x : Request V K). x ∷ drop (i + 1) qs) (sym is)

  -- what a run answers and leaves is in serial order
  pub in_order : (n : ℕ) (opening : List Row) (qs : List (Request V K)) (answers : List (Answer V)) (s : State) (cs : List (List Row)) (vs : List (List ℕ)) → length opening ≡ 512 → answers ≡ replies pack unpack (start n opening) qs → s ≡ final pack unpack (start n opening) qs → s.replicas ≡ paired cs vs → InSerialOrder pack unpack opening (history qs answers) cs
  in_order n opening qs answers s cs vs full a f r =
      subst (λ (h : History V K). InSerialOrder pack unpack opening h cs) (sym (ap (history qs) a ∙ history_is (start n opening) qs))
      (subst (λ (x : List (List Row)). InSerialOrder pack unpack opening (answered pack unpack (start n opening) qs) x)
      (sym (ap (λ (t : State). rows_of t.replicas) f) ∙ ap rows_of r ∙ rows_paired cs vs)
      (serial_order pack unpack opening n qs full))
