-- The default style sheet (CSS 2.1, 6.4 and appendix D; our own choice): what an element looks
-- like of which an author says nothing. Each line is ended by a line feed.
use Rattle.std.specs.Prelude.{ℕ, List, [], ◌∷◌, ◌++◌, codes}
use Rattle.std.specs.List.{flat_map}

abbrev pub default_lines : List (List ℕ)
default_lines =
    codes "html,body,div,p,h1,h2,h3,h4,h5,h6,ul,ol,dl,dt,dd,form,fieldset,legend," ∷
    codes "address,blockquote,center,hr,pre,article,aside,section,nav,header,footer," ∷
    codes "main,figure,figcaption,noframes{display:block}" ∷
    codes "li{display:list-item}" ∷
    codes "head,script,style,title,meta,link,base,noscript,template{display:none}" ∷
    codes "button,input,select,textarea{display:inline-block}" ∷
    codes "table{display:table}" ∷
    codes "tr{display:table-row}" ∷
    codes "td,th{display:table-cell}" ∷
    codes "body{margin:8px}" ∷
    codes "h1{font-size:2em;margin:.67em 0}" ∷
    codes "h2{font-size:1.5em;margin:.75em 0}" ∷
    codes "h3{font-size:1.17em;margin:.83em 0}" ∷
    codes "h4,p,ul,ol,dl{margin:1em 0}" ∷
    codes "h5{font-size:.83em;margin:1.5em 0}" ∷
    codes "h6{font-size:.75em;margin:1.67em 0}" ∷
    codes "blockquote,figure{margin:1em 40px}" ∷
    codes "ul,ol{padding-left:40px}" ∷
    codes "dd{margin-left:40px}" ∷
    codes "hr{border:1px inset;margin:.5em 0}" ∷
    codes "pre{white-space:pre}" ∷
    codes "small,sub,sup{font-size:.83em}" ∷
    codes "sub{vertical-align:sub}" ∷
    codes "sup{vertical-align:super}" ∷
    codes "center{text-align:center}" ∷ []

abbrev pub default_text : List ℕ
default_text = flat_map (λ line. line ++ 10 ∷ []) default_lines
