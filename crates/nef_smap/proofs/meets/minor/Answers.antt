use Rattle.nef_smap.proofs.Prelude.{◌^◌, [], ◌∷◌, load, wrap, ◌⊟◌, ◌⊠◌, exact_of, fits_of}
use mir.Syntax.{w128}
use Rattle.nef_smap.proofs.meets.minor.Goals as goal

pub overflow_mul-result : goal.overflow_mul-result
overflow_mul-result c = fits_of (2 ^ 50 ∷ 2 ^ 74 ∷ []) (c.args.a ∷ c.args.b ∷ []) w128 (wrap w128 (load 0) ⊠ wrap w128 (load 1)) (c.requires.a_small, (c.requires.b_small, tt)) tt

pub overflow_mul-result-2 : goal.overflow_mul-result-2
overflow_mul-result-2 c = fits_of (2 ^ 50 ∷ 2 ^ 74 ∷ []) (c.args.c ∷ c.args.d ∷ []) w128 (wrap w128 (load 0) ⊠ wrap w128 (load 1)) (c.requires.c_small, (c.requires.d_small, tt)) tt

pub overflow_sub-result : goal.overflow_sub-result
overflow_sub-result c = fits_of (2 ^ 50 ∷ 2 ^ 74 ∷ 2 ^ 50 ∷ 2 ^ 74 ∷ []) (c.args.a ∷ c.args.b ∷ c.args.c ∷ c.args.d ∷ []) w128
    (wrap w128 (wrap w128 (load 0) ⊠ wrap w128 (load 1)) ⊟ wrap w128 (wrap w128 (load 2) ⊠ wrap w128 (load 3)))
    (c.requires.a_small, (c.requires.b_small, (c.requires.c_small, (c.requires.d_small, tt)))) tt

pub returns : goal.returns
returns c = record {
  minor = exact_of (2 ^ 50 ∷ 2 ^ 74 ∷ 2 ^ 50 ∷ 2 ^ 74 ∷ []) (c.args.a ∷ c.args.b ∷ c.args.c ∷ c.args.d ∷ [])
      (wrap w128 (wrap w128 (wrap w128 (load 0) ⊠ wrap w128 (load 1)) ⊟ wrap w128 (wrap w128 (load 2) ⊠ wrap w128 (load 3))))
      (c.requires.a_small, (c.requires.b_small, (c.requires.c_small, (c.requires.d_small, tt)))) tt;
}
