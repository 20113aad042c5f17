-- The match of a whole clause: a law for each return and turn of `matches`.
use Prim.Native.Nat.{ℕ, zero, suc, ◌+◌, ◌≤◌, ◌<◌}
use mathlib.Core.Path.{◌≡◌, refl, ap, sym, ◌∙◌}
use mathlib.Core.Bool.{true, false}
use mathlib.Core.List.{List, [], ◌∷◌, ◌++◌, map, append-nil}
use mathlib.Core.Option.{none, some}
use native.Mathlib.Omega.{arith}
use Rattle.std.specs.Prelude.{Option, None, Some}
use lib.ListN.{length}
use Rattle.format_fields.specs.Lists.{all}
use Rattle.format_fields.proofs.Truth.{none_some, false_true, both_and, is_some_lem}
use Rattle.format_language.specs.Language.{is_in}
use Rattle.format_language.proofs.Lookup.{arguments_mem, result_in}
use Rattle.tree_reader.specs.Code.{Code, node, token, argument, Codes, nil, cons, levels}
use Rattle.tree_reader.specs.Typing.{Typed, TypedAll, typed_nil, typed_cons}
use Rattle.tree_reader.specs.Syntax.{write, write_all, tree, code}
use Rattle.format_translation.specs.Translation.{Translation, mapping_of, mapped}
use Rattle.format_translation.specs.Running.{clauses_of}
use Rattle.format_translation.proofs.Fitting.{uses_are}
use Rattle.run_table.specs.Inner.Table.{body_byte, Production, Clause}
use Rattle.tree_index.specs.Inner.Lying.{Lies, LieAll}
use Rattle.search_sources.specs.Inner.Goals.{Goal, Meets, Matches}
use Rattle.search_sources.specs.Inner.Matching.{nothing_bound, Alike}
use Rattle.search_sources.proofs.Matching.{alike_same, alike_then, matched, unmatched, matches_none}
use Rattle.search_levels.specs.Inner.Setting.{Asked}
use Rattle.search_levels.specs.Inner.Clauses.{Bound, Pending, width, StepAsks, StepGives, MatchAsks, MatchGives}

-- One tree as a row.
row_one : (f : Translation) (bytes : List ℕ) (at k : ℕ) (u : Code) → Lies f.target bytes at k u → LieAll f.target bytes at (k ∷ []) (cons u nil)
unfolding write levels all
row_one f bytes at k u h =
    let d = h.within in
    record {
      rest = h.rest;
      is = h.is ∙ ap (λ (v : List ℕ). v ++ h.rest) (sym (append-nil (write tree u)));
      inside = h.inside;
      typed = typed_cons h.typed typed_nil;
      within = omega arith;
      known = both_and (is_in f.target k) true h.known refl;
    }

-- What the match has come to: what is left to compare is as good as the whole.
pub record Going (table bytes bound : List ℕ) (c stop to : ℕ) (f : Translation) (k p : ℕ) (ks : List ℕ) (g : Goal) : Type 0 where
  pub goal : Code
  pub goal_is : g ≡ some goal
  pub kinds : List ℕ
  pub codes : Codes
  pub trees : Codes
  pub so_far : ℕ → Goal
  pub row : Pending table bytes c stop to f (map (mapping_of f.body) ks) kinds codes trees
  pub is : Bound f bytes bound to ks so_far
  pub alike : Alike nothing_bound (cons (clauses_of f k p 0) nil) (cons goal nil) so_far codes trees

module _ (table target places kinds bytes memory bound : List ℕ) (place clause at : ℕ) (f : Translation) (k p : ℕ) (ks : List ℕ) (g : Goal)
    (h : MatchAsks table target places kinds bytes memory bound place clause at f k p ks g) where
  pub production : Production table place ks
  production = rw h.place_is (h.targeted.ready.production k p ks h.kind h.name h.known)

  pub the_clause : Clause table (clause + 4) (clauses_of f k p 0)
  the_clause = rw h.clause_is (h.targeted.ready.clause k p ks h.kind h.name h.known)

  typed_code : Typed f.target (map (mapping_of f.body) ks) (clauses_of f k p 0) (mapped f.body k 0)
  typed_code =
      let known = result_in f.source k p ks (arguments_mem f.source k p ks h.known) in
      rw (uses_are f k p ks h.known) at
      (h.targeted.ready.typed k p 0 ks h.kind h.name h.known (is_some_lem (mapping_of f.body k 0) (h.targeted.has_zero k known)))

  nothing_yet : (to : ℕ) → Bound f bytes bound to ks nothing_bound
  nothing_yet to = record {
    long = h.long;
    at = λ j q. let x = production.few in h.empty j (omega arith);
    before = λ j w e. none_some e;
    inside = λ j w e. none_some e;
  }

  -- Nothing is asked.
  pub match_free : length bytes ≤ at → MatchGives bytes bound true f k p ks g
  match_free past = go g h.asked
    where
      go : (g : Goal) → Asked f bytes at k g → MatchGives bytes bound true f k p ks g
      go none a = record {
        holds = λ e. (nothing_bound, nothing_yet (length bytes), matches_none f.source (clauses_of f) k p ks);
        fails = λ e. false_true (sym e);
      }
      go (some u) a = absurd (omega (arith, a.0))

  -- The whole code and the whole tree.
  module _ (there : at < length bytes) (stop : ℕ) (ends : stop ≡ clause + 4 + length (write code (clauses_of f k p 0))) where
    whole_row : (u : Code) → Lies f.target bytes at (mapped f.body k 0) u
        → Pending table bytes (clause + 4) stop at f (map (mapping_of f.body) ks) (mapped f.body k 0 ∷ []) (cons (clauses_of f k p 0) nil) (cons u nil)
    unfolding write
    whole_row u l = record {
      codes = typed_cons typed_code typed_nil;
      stands = rw (append-nil (write code (clauses_of f k p 0))) the_clause.stands;
      ends = ends ∙ ap (λ (v : List ℕ). clause + 4 + length v) (sym (append-nil (write code (clauses_of f k p 0))));
      inside = let x = the_clause.inside in let y = ends in omega arith;
      trees = row_one f bytes at (mapped f.body k 0) u l;
    }

    pub match_start : Going table bytes bound (clause + 4) stop at f k p ks g
    match_start = go g h.asked
      where
        go : (g : Goal) → Asked f bytes at k g → Going table bytes bound (clause + 4) stop at f k p ks g
        go none a = absurd (omega arith)
        go (some u) a = record {
          goal = u;
          goal_is = refl;
          kinds = mapped f.body k 0 ∷ [];
          codes = cons (clauses_of f k p 0) nil;
          trees = cons u nil;
          so_far = nothing_bound;
          row = whole_row u a.1;
          is = nothing_yet at;
          alike = alike_same nothing_bound (cons (clauses_of f k p 0) nil) (cons u nil);
        }

  -- A turn.
  module _ (now : List ℕ) (c stop to : ℕ) (w : Going table bytes now c stop to f k p ks g) where
    pub going_inside : stop ≤ 4096
    going_inside = w.row.inside

    pub match_step : c < stop → StepAsks table target places kinds bytes memory now place c stop to f ks w.kinds w.codes w.trees w.so_far
    match_step more = record { targeted = h.targeted; ends = h.ends; production = production; row = w.row; is = w.is; more = more }

    module _ (after : List ℕ) (r : Option ℕ) (s : StepGives table bytes after c stop r f ks w.codes w.trees w.so_far) where
      pub match_stops : r ≡ None → MatchGives bytes after false f k p ks g
      match_stops e = record {
        holds = λ z. false_true z;
        fails = λ z t q m.
            unmatched f.source (clauses_of f) k p ks w.goal w.so_far w.codes w.trees w.alike (s.stops e) t q
            (meets_of g (some w.goal) (node k p t) w.goal_is m);
      }
        where
          meets_of : (x y : Goal) (t : Code) → x ≡ y → Meets (clauses_of f) x t → Meets (clauses_of f) y t
          meets_of x y t e q = rw e at q

      pub match_next : (e : ℕ) → r ≡ Some e → {n : ℕ} → n ≡ width (body_byte table c) → Going table bytes after (c + n) stop e f k p ks g
      match_next e q {n} d =
          let z = s.goes e q in
          record {
            goal = w.goal;
            goal_is = w.goal_is;
            kinds = z.0;
            codes = z.1;
            trees = z.2;
            so_far = z.3;
            row = rw d z.4;
            is = z.5;
            alike = alike_then w.alike z.6;
          }

    -- Nothing is left.
    row_over : {js : List ℕ} {cs us : Codes} → TypedAll f.target (map (mapping_of f.body) ks) cs js → TypedAll f.target [] us js
        → length (write_all code cs) ≡ 0 → (cs ≡ nil) × (us ≡ nil)
    unfolding write
    row_over typed_nil typed_nil e = (refl, refl)
    row_over (typed_cons {a = a} {t = t} x xs) y e = absurd (some_code a (write_all code t) e)
      where
        some_code : (a : Code) (v : List ℕ) → length (write code a ++ v) ≡ 0 → ⊥
        some_code (node j q t) v e = omega arith
        some_code (token x) v e = omega arith
        some_code (argument i zero) v e = omega arith
        some_code (argument i (suc j)) v e = omega arith

    pub match_done : stop ≤ c → MatchGives bytes now true f k p ks g
    match_done e =
        let z = row_over w.row.codes w.row.trees.typed (let x = w.row.ends in omega arith) in
        record { holds = λ y. (w.so_far, whole w.is, goal_of w.goal_is (all_of z.0 z.1 w.alike)); fails = λ y. false_true (sym y) }
      where
        all_of : {d : ℕ → Goal} {cs us : Codes} → cs ≡ nil → us ≡ nil → Alike nothing_bound (cons (clauses_of f k p 0) nil) (cons w.goal nil) d cs us
            → Alike nothing_bound (cons (clauses_of f k p 0) nil) (cons w.goal nil) d nil nil
        all_of x y q = rw (x, y) at q

        goal_of : {y : Goal} → y ≡ some w.goal → Alike nothing_bound (cons (clauses_of f k p 0) nil) (cons w.goal nil) w.so_far nil nil
            → Matches f.source (clauses_of f) k p ks y w.so_far
        goal_of e q = rw e (matched f.source (clauses_of f) k p ks w.goal w.so_far w.is.inside q)

        whole : Bound f bytes now to ks w.so_far → Bound f bytes now (length bytes) ks w.so_far
        whole q =
            let l = w.row.trees.inside in
            record { long = q.long; at = q.at; before = λ j v y. let x = q.before j v y in omega arith; inside = q.inside }

-- How far the code goes on.
pub step_width : {s w n : ℕ} → s ≡ w → n ≡ width s → n ≡ width w
step_width e d = d ∙ ap width e
